mod Folding
mod Repeating
