mod Bytes
mod Items
