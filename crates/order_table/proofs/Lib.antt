mod Counting
mod Nonces
