mod Asked
mod Fields
mod Lists
mod Texts
