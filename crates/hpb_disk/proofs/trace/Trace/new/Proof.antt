-- The struct is made with an empty list of entries and the bytes that it was shown; it takes no memory.
use Rattle.std.proofs.Common.{[], ◌∷◌, refl}
use Rattle.std.proofs.raw_atomic.Walks.{proved}
use base.Fml.{ftrue, flft}
use mir.Syntax.{named}
use mir.Val.{Val, vstruct, vcons, vnil}
use types.Kit.{‵, ◌⊛◌, ◌$◌, ◌∵◌, !, qed, move, keep, split, suffices, frame, done}
use types.Part.{agg}
use types.Run.{no_more, and_then, returns, enter}
use types.ByLocal.{alloc_all, pass_all, free_all, look_at, get, sets}
use denote.Builtin.{u8}
use denote.Exit.{yes}
use denote.Shadow.{pure_i}
use denote.Slice.{ShrSlice, shr_slice_vals, shr_slice_Tells}
use denote.Signature.{plain}
use denote.Triple.Walked.{says, Stays, stay_none_slice, walk_of, Goes-none_slice, ends_at}
use Rattle.hpb_disk.specs.declared.trace.Trace.{Trace}
use Rattle.hpb_disk.specs.contracts.trace.Trace.{the_row as R}
use Rattle.hpb_disk.specs.contracts.trace.Trace.new as f
use Rattle.hpb_disk.proofs.trace.Trace.new.Statement.{statement}
use Rattle.hpb_disk.proofs.trace.Trace.new.Code as code

-- At its return the function still has the slice.
abbrev stayed : Stays f.ended.signature.params f.ended.kept
stayed = (stay_none_slice (0 ∷ []) tt (plain (λ _. u8)) yes, tt)

-- The machine's value of a trace.
abbrev made : Val
made = vstruct (vcons (vstruct vnil) vnil)

pub new_spec : {M : Type 1} → statement M
new_spec 𝓤 𝓛 𝓜 𝓡 wired =
    let c = f.clauses 𝓛 𝓜.mem 𝓡.returns in let W = walk_of 𝓛 f.ended stayed c in
    proved 𝓛 f.ended stayed c 𝓜 𝓡 (Goes-none_slice 𝓛 1 (0 ∷ []) tt (plain (λ _. u8)) yes, tt)
    f.Key.name code.function (code.unfolded 𝓤 𝓛.H 𝓜 𝓡 wired)
    (λ κs. (shr_slice_vals, tt)) (λ κs. (shr_slice_Tells (named 0) κs.0 u8, tt))
    (λ κs qs bounds a _ are.
    let bytes = a.0 in
    let trace : Trace = record { marker = record {}; first = bytes.now; events = [] } in
    let y : W.Ghost = ((κs, qs, bounds, a, (shr_slice_vals bytes, tt)), tt) in
    qed 𝓛 (((‵ (flft κs.0 qs.0) ⊛ ‵ ftrue) ⊛ (‵ ((ShrSlice (named 0) κs.0 u8).own_val bytes (shr_slice_vals bytes)) ⊛ ‵ ftrue)) ∷ ‵ ftrue ∷ []) ∵
    split ! $ keep ! (0 ∷ 1 ∷ []) $
    -- [the token of the slice's lifetime; the slice]
    enter ! _ _ _ _ _ $ alloc_all ! (λ l. pass_all ! refl ((tt, (tt, (record { fits = are.0.0.1.0 }, tt))), tt) $
    sets ! (agg ! (no_more !)) refl (tt, tt) $ sets ! (agg ! (and_then ! (get ! refl) (no_more !))) refl (tt, (tt, tt)) $
    returns ! (look_at ! 0 refl) $ free_all ! refl $
    pure_i ! (R.own_val trace (made ∷ [])) ((λ vss. (tt, ((λ uss. (tt, tt)), tt))), tt) (((vstruct vnil ∷ [], tt), (refl, ((tt, (refl, tt)), tt))), tt) $
    suffices ! _ (ends_at 𝓛 f.ended stayed c y made trace (tt, tt) (tt, tt)) $ says ! (refl, refl) $
    move ! (1 ∷ 2 ∷ 0 ∷ []) $ frame ! $ frame ! $ done !))
