mod Layouts
mod Loops
mod Showing
mod Whole
