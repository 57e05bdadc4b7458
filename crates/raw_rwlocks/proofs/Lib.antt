mod RwLockEntries
mod RwLockReleases
