mod Vectors
mod PreparingVectors
