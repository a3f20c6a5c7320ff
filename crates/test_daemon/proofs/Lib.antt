mod Closures
