pub mod RulingLaws
pub mod TallyLaws
pub mod NameLaws
pub mod TypeLaws
pub mod CarrierLaws
