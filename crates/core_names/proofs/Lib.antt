mod Named
mod Stores
mod Parts
mod AtCount
