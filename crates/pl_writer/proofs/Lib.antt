mod Bools
mod Steps
mod EdgeSteps
mod WriterSteps
mod WriterLoop
