mod Ends
mod InOrder
