mod Trimmed
mod Ranked
mod Intersected
