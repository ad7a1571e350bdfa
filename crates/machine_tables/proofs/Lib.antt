mod WorkedRows
mod WorkedTables
