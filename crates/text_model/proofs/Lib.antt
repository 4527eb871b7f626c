mod Vectors
