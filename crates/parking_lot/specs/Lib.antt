pub mod LotOf
