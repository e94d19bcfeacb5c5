-- To be believed: what each exported call answers and leaves. `layout` says which bytes a controller is, `words` what the answer word is.
pub mod Calls
