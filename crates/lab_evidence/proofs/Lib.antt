mod LeftEntries
