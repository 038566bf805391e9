mod PartLists
mod ChainWindows
mod PiecesRead
