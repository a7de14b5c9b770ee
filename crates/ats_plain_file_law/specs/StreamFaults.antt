use Rattle.std.specs.Prelude.{◌≡◌, codes}
use Rattle.ats_streams.specs.Fault.{text_of}
use Rattle.ats_streams.specs.declared.fault.StreamFault.TheVariants.{BadClass, BadRate, BadSizes, BurstBelowFrame}
use Rattle.ats_streams.specs.declared.fault.StreamFault.TheVariants.{Limit}

-- by which word each rule is called that a stream may break
pub record StreamFaultsAreCalled : Type 0 where
  pub class : text_of BadClass ≡ codes "bad-class"
  pub rate : text_of BadRate ≡ codes "bad-rate"
  pub sizes : text_of BadSizes ≡ codes "bad-sizes"
  pub burst : text_of BurstBelowFrame ≡ codes "burst-below-frame"
  pub limit : text_of Limit ≡ codes "limit"
