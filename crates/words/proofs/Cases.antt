-- By the cases of a test.
use mathlib.Core.Path.{◌≡◌, refl}
use mathlib.Core.Bool.{Bool, true, false}

pub decide : {P : Type 0} (t : Bool) → (t ≡ true → P) → (t ≡ false → P) → P
decide true f g = f refl
decide false f g = g refl
