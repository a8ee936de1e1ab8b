use Rattle.std.proofs.Common.{Some, is_some, string_bytes, sym, ap, ◌∙◌, cond, bytes_eq}
use Rattle.std.proofs.lemmas.Map.Text.{hash_map_updates_text}
use Rattle.std.specs.HashMap.{get_by_text}
use Rattle.hpb_define.proofs.Noting.{known_before, new_now}
use Rattle.hpb_define.proofs.places.note_place.Goals as goal

pub returns-then-contains_key : goal.returns-then-contains_key
returns-then-contains_key c = λ earlier node holds here named.
    known_before (get_by_text c.args.places.now) earlier node holds
    (ap (λ n. is_some (get_by_text c.args.places.now n)) named ∙ sym c.contains_key.ensures ∙ c.if-contains_key.true)

pub returns : goal.returns
returns c = λ earlier node holds here named.
    new_now (get_by_text c.args.places.now) earlier node holds (get_by_text c.insert.new.self) c.args.place
    (ap (λ n. is_some (get_by_text c.args.places.now n)) named ∙ sym c.contains_key.ensures ∙ c.if-contains_key.false) here
    (λ name. hash_map_updates_text (string_bytes c.in_ok-from_str.field-0) c.args.places.now c.insert.new.self (Some c.args.place) c.in_ok-insert.ensures.updates name
    ∙ ap (λ n. cond (bytes_eq n name) (Some c.args.place) (get_by_text c.args.places.now name)) (c.in_ok-from_str.ensures.ok ∙ sym named))
