mod CommandLines
mod DumpWords
mod Flags
mod Named
mod Stops
