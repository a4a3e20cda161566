-- What is drawn, the operation Rehearse, and what its functions say.
pub mod Load
pub mod Examples
pub mod Drawing
