mod ListParts
mod OperationKeys
mod Overlay
mod RelievedPartitions
