mod OneTable
