-- A result that is an error.
use Rattle.std.specs.Prelude.{◌≡◌, true, false, Result, Ok, Err, OnOk}
use Rattle.std.specs.Result.{IsErr, IsErrAnd}

-- a property of every case
pub ok_case : {T E : Type 0} {P : Type 0} (r : Result T E) → P → OnOk r P
ok_case (Ok done) p = p
ok_case (Err error) p = tt

-- a property of each such error is one of a result that is such an error
pub err_case : {T E : Type 0} {Q : E → Type 0} (P : Result T E → Type 0) (r : Result T E) → IsErrAnd r Q → ((error : E) → Q error → P (Err error)) → P r
err_case P (Ok done) bad h = absurd bad
err_case P (Err error) bad h = h error bad

-- an error needn't have the property of an `Ok`
pub err_only : {T E : Type 0} (P : Type 0) (Q : E → Type 0) (r : Result T E) → IsErrAnd r Q → OnOk r P
err_only P Q (Ok done) bad = absurd bad
err_only P Q (Err error) bad = tt

pub err_alone : {T E : Type 0} (P : Type 0) (r : Result T E) → IsErr r → OnOk r P
err_alone P (Ok done) bad = absurd (let no : false ≡ true = bad in cc)
err_alone P (Err error) bad = tt
