mod Blocks
mod ManyAnswers
