mod Parts
mod Once
mod Most
mod Places
mod Standing
mod Changed
mod Kept
