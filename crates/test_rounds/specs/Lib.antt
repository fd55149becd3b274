pub mod OwnTokens
