mod SmallerFiles
