pub mod ListLemmas
pub mod DigitsLemmas
pub mod TextsLemmas
pub mod SpeltLemmas
pub mod WrittenLemmas
pub mod DevicesLemmas
