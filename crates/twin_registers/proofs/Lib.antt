mod SameEntries
