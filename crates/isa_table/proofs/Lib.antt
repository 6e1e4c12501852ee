pub mod Table
pub mod WordInsn
pub mod InsnWord
