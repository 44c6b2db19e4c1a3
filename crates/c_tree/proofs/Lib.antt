mod RefusedRows
mod Rows
mod RunLaws
mod ScopeLaws
