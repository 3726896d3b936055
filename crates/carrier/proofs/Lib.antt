pub mod TimeLaws
pub mod StarveLaws
pub mod AloneLaws
pub mod RunLaws
pub mod PostLaws
pub mod ThreadLaws
