pub mod ShowProofs
pub mod ExplainProofs
pub mod CheckProofs
pub mod AdmitProofs
pub mod ReplayProofs
pub mod ReportProofs
pub mod FitProofs
pub mod WitnessProofs
