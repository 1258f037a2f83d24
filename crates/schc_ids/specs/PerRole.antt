-- One thing for each end of the link.
use Rattle.schc_ids.specs.declared.ends.Role.{Role}
use Rattle.schc_ids.specs.declared.ends.Role.TheVariants.{Device, Gateway}

pub record PerRole (A : Type 0) : Type 0 where
  pub device : A
  pub gateway : A

-- the one of this end
abbrev pub at_role : {A : Type 0} → PerRole A → Role → A
at_role both Device = both.device
at_role both Gateway = both.gateway

-- the same with another one at this end
abbrev pub put_role : {A : Type 0} → PerRole A → Role → A → PerRole A
put_role both Device one = record { device = one; gateway = both.gateway }
put_role both Gateway one = record { device = both.device; gateway = one }
