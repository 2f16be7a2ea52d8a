-- Two marches of the literature.
use Rattle.std.specs.Prelude.{List, [], ◌∷◌}
use Rattle.mt_march.specs.declared.march.Order.TheVariants.{Up, Down, Either}
use Rattle.mt_march.specs.declared.march.Op.TheVariants.{R0, R1, W0, W1}
use Rattle.mt_march.specs.declared.march.Element.{Element}
use Rattle.mt_march.specs.Value.{element}

-- {*(w0); u(r0,w1); u(r1,w0); d(r0,w1); d(r1,w0); *(r0)}
abbrev pub march_c_minus : List Element
march_c_minus =
    element Either (W0 ∷ [])
    ∷ element Up (R0 ∷ W1 ∷ [])
    ∷ element Up (R1 ∷ W0 ∷ [])
    ∷ element Down (R0 ∷ W1 ∷ [])
    ∷ element Down (R1 ∷ W0 ∷ [])
    ∷ element Either (R0 ∷ [])
    ∷ []

-- {*(w0); u(r0,w1); d(r1,w0)}
abbrev pub mats_plus : List Element
mats_plus = element Either (W0 ∷ []) ∷ element Up (R0 ∷ W1 ∷ []) ∷ element Down (R1 ∷ W0 ∷ []) ∷ []
