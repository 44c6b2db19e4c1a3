pub mod DeclLaws
pub mod FunctionLaws
pub mod HeadLaws
pub mod LabelLaws
pub mod ScopeLaws
pub mod SourceLaws
pub mod StmtLaws
