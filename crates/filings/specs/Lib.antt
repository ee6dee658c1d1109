pub mod Filings
