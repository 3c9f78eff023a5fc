-- No rules: what the contracts of private functions say, here and in crates that make texts. Nothing below has to be believed; public promises do
-- not speak of it.
pub mod Within
