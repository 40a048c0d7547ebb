mod Names
mod RowFields
mod Cells
mod Runs
mod Loading
