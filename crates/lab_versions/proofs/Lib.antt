mod Conflicts
