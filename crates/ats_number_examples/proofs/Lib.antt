pub mod CountedProofs
pub mod ToldProofs
pub mod ShortTest
pub mod PremiseProofs
pub mod AnswersMeant
pub mod PartsMeant
