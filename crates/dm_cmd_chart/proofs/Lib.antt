pub mod Names
mod Charting
pub mod ChartKept
