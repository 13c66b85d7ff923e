mod OptionLaws
mod QueryLaws
mod CommandLaws
mod RequestLaws
