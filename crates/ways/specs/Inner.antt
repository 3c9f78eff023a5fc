-- No rules: what the contracts of private functions say. Nothing below has to be believed; public promises do not speak of it.
pub mod Layers
pub mod Picked
pub mod Causes
