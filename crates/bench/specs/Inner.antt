-- No rules: what the contracts of private functions say. Nothing below has to be believed; public promises do not speak of it.
pub mod Ends
pub mod Idle
pub mod Shown
pub mod Trial
