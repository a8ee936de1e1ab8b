-- Reading one node more.
use Rattle.std.proofs.Common.{◌≡◌, ℕ, ◌+◌, ◌<◌, List, [], ◌∷◌, ◌++◌, length, get_or, take, drop, take-append-drop, map, Option, Some, None, option_map, refl, sym, ap, ◌∙◌, append_assoc, append-nil}
use Rattle.std.proofs.lemmas.List.{take_more, map-append}
use Rattle.std.specs.Option.{option_and_then}
use Rattle.serde_json.specs.Data.{Data}
use Rattle.serde_json.specs.View.{view}
use Rattle.serde_json.specs.declared.value.Value.{Value}
use Rattle.hpb_rules.specs.Tree.{Node}
use Rattle.hpb_define.specs.Spelling.{node_of, nodes_after}
use Rattle.hpb_define.specs.Reading.{Fails}
use Rattle.hpb_define.specs.declared.fault.DefineCause.{DefineCause}
use Rattle.hpb_define.specs.declared.fault.DefineCause.TheVariants.{Memory, Json, Field, Number, Refused}
use Rattle.hpb_define.proofs.Each.{push_first, push_last}

abbrev with_last : List Node → Data → List Node → Option (List Node)
with_last earlier d ns = option_map (λ n. ns ++ n ∷ []) (node_of (earlier ++ ns) d)

then_push : (earlier : List Node) (d : Data) (n : Node) (rest : Option (List Node))
    → option_map (λ l. n ∷ l) (option_and_then (with_last (earlier ++ n ∷ []) d) rest) ≡ option_and_then (with_last earlier d) (option_map (λ l. n ∷ l) rest)
then_push earlier d n None = refl
then_push earlier d n (Some ns) =
    push_last (node_of ((earlier ++ n ∷ []) ++ ns) d) ns n
    ∙ ap (λ l. option_map (λ m. n ∷ (ns ++ m ∷ [])) (node_of l d)) (append_assoc earlier (n ∷ []) ns)

push_by : (earlier : List Node) (ds : List Data) (d : Data)
    → ((n : Node) → nodes_after (earlier ++ n ∷ []) (ds ++ d ∷ []) ≡ option_and_then (with_last (earlier ++ n ∷ []) d) (nodes_after (earlier ++ n ∷ []) ds))
    → (first : Option Node) → option_and_then (λ n. option_map (λ l. n ∷ l) (nodes_after (earlier ++ n ∷ []) (ds ++ d ∷ []))) first
    ≡ option_and_then (with_last earlier d) (option_and_then (λ n. option_map (λ l. n ∷ l) (nodes_after (earlier ++ n ∷ []) ds)) first)
push_by earlier ds d more None = refl
push_by earlier ds d more (Some n) = ap (option_map (λ l. n ∷ l)) (more n) ∙ then_push earlier d n (nodes_after (earlier ++ n ∷ []) ds)

nodes_push : (earlier : List Node) (ds : List Data) (d : Data) → nodes_after earlier (ds ++ d ∷ []) ≡ option_and_then (with_last earlier d) (nodes_after earlier ds)
nodes_push earlier [] d = push_first (node_of earlier d) ∙ ap (λ l. option_map (λ n. n ∷ []) (node_of l d)) (sym (append-nil earlier))
nodes_push earlier (e ∷ ds) d = push_by earlier ds d (λ n. nodes_push (earlier ++ n ∷ []) ds d) (node_of earlier e)

is_none_below : (n : Node) (rest : Option (List Node)) → option_map (λ l. n ∷ l) rest ≡ None → rest ≡ None
is_none_below n None h = refl
is_none_below n (Some ns) h = absurd (cc)

stop_by : (earlier : List Node) (ds more : List Data)
    → ((n : Node) → nodes_after (earlier ++ n ∷ []) ds ≡ None → nodes_after (earlier ++ n ∷ []) (ds ++ more) ≡ None)
    → (first : Option Node) → option_and_then (λ n. option_map (λ l. n ∷ l) (nodes_after (earlier ++ n ∷ []) ds)) first ≡ None
    → option_and_then (λ n. option_map (λ l. n ∷ l) (nodes_after (earlier ++ n ∷ []) (ds ++ more))) first ≡ None
stop_by earlier ds more rest None h = refl
stop_by earlier ds more rest (Some n) h = ap (option_map (λ l. n ∷ l)) (rest n (is_none_below n _ h))

nodes_stop : (earlier : List Node) (ds more : List Data) → nodes_after earlier ds ≡ None → nodes_after earlier (ds ++ more) ≡ None
nodes_stop earlier [] more h = absurd (cc)
nodes_stop earlier (d ∷ ds) more h = stop_by earlier ds more (λ n. nodes_stop (earlier ++ n ∷ []) ds more) (node_of earlier d) h

-- the node at a place, after those before it
module _ (vs : List Value) (i : ℕ) (v : Value) (ns : List Node) (small : i < length vs) (at : v ≡ get_or vs i v) (so_far : nodes_after [] (map view (take i vs)) ≡ Some ns) where
  nodes_next : nodes_after [] (map view (take (i + 1) vs)) ≡ option_map (λ n. ns ++ n ∷ []) (node_of ns (view v))
  nodes_next =
      ap (λ l. nodes_after [] (map view l)) (take_more vs i v small)
      ∙ ap (nodes_after []) (map-append view (take i vs) (get_or vs i v ∷ []))
      ∙ nodes_push [] (map view (take i vs)) (view (get_or vs i v))
      ∙ ap (option_and_then (with_last [] (view (get_or vs i v)))) so_far
      ∙ ap (λ w. option_map (λ n. ns ++ n ∷ []) (node_of ns (view w))) (sym at)

  pub nodes_more : (n : Node) → node_of ns (view v) ≡ Some n → nodes_after [] (map view (take (i + 1) vs)) ≡ Some (ns ++ n ∷ [])
  nodes_more n now = nodes_next ∙ ap (option_map (λ n. ns ++ n ∷ [])) now

  stops : node_of ns (view v) ≡ None → nodes_after [] (map view vs) ≡ None
  stops now =
      let whole : take (i + 1) vs ++ drop (i + 1) vs ≡ vs = take-append-drop (i + 1) vs in
      ap (λ l. nodes_after [] (map view l)) (sym whole)
      ∙ ap (nodes_after []) (map-append view (take (i + 1) vs) (drop (i + 1) vs))
      ∙ nodes_stop [] (map view (take (i + 1) vs)) (map view (drop (i + 1) vs)) (nodes_next ∙ ap (option_map (λ n. ns ++ n ∷ [])) now)

  pub nodes_fail : (e : DefineCause) → Fails e (node_of ns (view v)) → Fails e (nodes_after [] (map view vs))
  nodes_fail Memory h = tt
  nodes_fail Json h = absurd h
  nodes_fail Field h = absurd h
  nodes_fail Number h = stops h
  nodes_fail (Refused fault) h = absurd h
