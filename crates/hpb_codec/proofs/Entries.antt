-- Nodes and bidders, one after another.
use Rattle.std.proofs.Common.{◌≡◌, ℕ, zero, suc, ◌+◌, ◌-◌, ◌*◌, ◌<◌, ◌≤◌, List, [], ◌∷◌, ◌++◌, length, take, drop, get_or, Option, Some, None, refl, sym, ap, ◌∙◌, arith, append_assoc, length-append}
use Rattle.std.specs.List.{flat_map, AllByRecursion}
use Rattle.std.specs.Prelude.{◌^◌, IfSome, slice_get, option_map}
use Rattle.hpb_tree.specs.Draft.{terms_said}
use Rattle.hpb_tree.specs.declared.draft.TermsDraft.{TermsDraft}
use Rattle.std.proofs.Math.Nat.{add-mul}
use Rattle.std.proofs.lemmas.List.{append-nil, drop_more, take_at, take_more}
use Rattle.std.proofs.lemmas.List.Concat.{flat_map-cons, flat_map-append}
use Rattle.hpb_rules.specs.declared.licence.Terms.{Terms}
use Rattle.hpb_rules.specs.Tree.{Rules, Node, Bidder, parent_of, terms_of}
use Rattle.hpb_rules.specs.Text.{node_name, bidder_name}
use Rattle.hpb_rules.specs.Units.{bidder_units}
use Rattle.hpb_rules.proofs.Places.{named_bidder}
use Rattle.hpb_codec.specs.Numbers.{number, filled, before}
use Rattle.hpb_codec.specs.Sizes.{length-number, behind, behind_text}
use Rattle.hpb_codec.proofs.Fronts.{same_number, same_text}
use Rattle.hpb_codec.proofs.Tables.{recursion_at}
use Rattle.hpb_codec.specs.NodePages as nodes
use Rattle.hpb_codec.specs.BidderPages as bidders

-- a name takes 16 bytes
pub name_sized : (name : List ℕ) → length name ≤ 16 → length (filled 16 name) ≡ 16
unfolding filled
name_sized name short = length-append name (number (16 - length name) 0) ∙ omega (arith, length-number (16 - length name) 0)

-- the size of entries that each have the same size
pub entries_sized : {X : Type 0} (f : X → List ℕ) (P : X → Type 0) (size : ℕ) → ((x : X) → P x → length (f x) ≡ size) → (values : List X) → AllByRecursion P values → length (flat_map f values) ≡ length values * size
entries_sized f P size sized [] all = omega arith
entries_sized f P size sized (x ∷ values) all = ap length (flat_map-cons f x values) ∙ omega (arith, add-mul (length values) 1 size, length-append (f x) (flat_map f values), sized x all.0, entries_sized f P size sized values all.1)

-- the bytes at the start of a page
pub page_front : (entries : List ℕ) (size n : ℕ) → length entries ≡ n → before n (filled size entries) ≡ entries
unfolding before filled
page_front entries size n len = take_at entries (number (size - length entries) 0) n len

-- one more entry behind those written so far
pub one_more : {X : Type 0} (f : X → List ℕ) (values : List X) (i : ℕ) (d : X) (old out out' : List ℕ) (a b : ℕ) → i < length values → before a out ≡ before 0 old ++ flat_map f (take i values) → before b out' ≡ before a out ++ f (get_or values i d)
    → before b out' ≡ before 0 old ++ flat_map f (take (i + 1) values)
one_more f values i d old out out' a b lt so_far written =
    let x = get_or values i d in
    let more : flat_map f (take (i + 1) values) ≡ flat_map f (take i values) ++ f x
    = ap (flat_map f) (take_more values i d lt) ∙ flat_map-append f (take i values) (x ∷ []) ∙ ap (λ (y : List ℕ). flat_map f (take i values) ++ y) (append-nil (f x)) in
    written ∙ ap (λ (y : List ℕ). y ++ f x) so_far ∙ append_assoc (before 0 old) (flat_map f (take i values)) (f x) ∙ ap (λ (y : List ℕ). before 0 old ++ y) (sym more)

-- a node at a place has the name, the parent and the terms of that place
pub node_entry : (ns : List Node) (i : ℕ) (d : Node) → i < length ns → nodes.entry_of (node_name ns i) (parent_of ns i) (terms_of ns i) ≡ nodes.node_of (get_or ns i d)
node_entry [] i d lt = absurd (omega arith)
node_entry (n ∷ ns) zero d lt = refl
node_entry (n ∷ ns) (suc i) d lt = node_entry ns i d (omega arith)

abbrev units_or : Option Bidder → ℕ
units_or o = elim o [ None ↦ 0 | Some b ↦ b.units ]

units_at : (bs : List Bidder) (i : ℕ) (d : Bidder) → i < length bs → units_or (slice_get bs i) ≡ (get_or bs i d).units
units_at [] i d lt = absurd (omega arith)
units_at (b ∷ bs) zero d lt = refl
units_at (b ∷ bs) (suc i) d lt = units_at bs i d (omega arith)

-- the bidder at a place has the name and the units of that place
pub bidder_entry : (rules : Rules) (i : ℕ) (d : Bidder) → i < length rules.bidders → bidders.entry_of (bidder_name rules.bidders i) (bidder_units rules i) ≡ bidders.bidder_of (get_or rules.bidders i d)
bidder_entry rules i d lt = ap (λ (name : List ℕ). bidders.entry_of name (bidder_units rules i)) (named_bidder rules.bidders i d lt) ∙ ap (bidders.entry_of (get_or rules.bidders i d).name) (units_at rules.bidders i d lt)

-- a node takes 32 bytes and a bidder 24
fields_sized : (name : List ℕ) (parent kind units opening : ℕ) → length name ≤ 16 → length (nodes.node_fields name parent kind units opening) ≡ 32
fields_sized name parent kind units opening short = behind_text 16 (filled 16 name) _ (name_sized name short) (behind 1 _ _ (behind 1 _ _ (behind 2 _ _ (behind 4 _ _ (behind 8 _ _ refl)))))

entry_sized : (name : List ℕ) (parent : Option ℕ) (terms : Option Terms) → length name ≤ 16 → length (nodes.entry_of name parent terms) ≡ 32
unfolding nodes.entry_of
entry_sized name parent None short = fields_sized name (nodes.parent_byte parent) 0 0 0 short
entry_sized name parent (Some terms) short = fields_sized name (nodes.parent_byte parent) 1 terms.units terms.opening short

pub node_sized : (node : Node) → nodes.HasEntry node → length (nodes.node_of node) ≡ 32
node_sized node has = entry_sized node.name node.parent node.terms has.name.0.1

pub bidder_sized : (bidder : Bidder) → bidders.HasEntry bidder → length (bidders.bidder_of bidder) ≡ 24
unfolding bidders.entry_of
bidder_sized bidder has = behind_text 16 (filled 16 bidder.name) _ (name_sized bidder.name has.name.0.1) (behind 4 _ _ (behind 4 _ _ refl))

-- the next entry, at the start of the bytes that are left
pub next_read : {X : Type 0} (f : X → List ℕ) (P : X → Type 0) (size : ℕ) → ((x : X) → P x → length (f x) ≡ size) → (values : List X) (i : ℕ) (d : X) (rest entry after : List ℕ) → i < length values → AllByRecursion P values
    → rest ≡ flat_map f (drop i values) → rest ≡ entry ++ after → length entry ≡ size → (entry ≡ f (get_or values i d)) × (after ≡ flat_map f (drop (i + 1) values))
next_read f P size sized values i d rest entry after lt all is cut len =
    let x = get_or values i d in
    same_text size entry (f x) after (flat_map f (drop (i + 1) values)) len (sized x (recursion_at P values i d lt all))
    (sym cut ∙ is ∙ ap (flat_map f) (drop_more values i d lt) ∙ flat_map-cons f x (drop (i + 1) values))

-- the bidder read from its bytes
pub bidder_read : (bidder : Bidder) (entry name rest after : List ℕ) (units : ℕ) → bidders.HasEntry bidder → entry ≡ bidders.bidder_of bidder → entry ≡ name ++ rest → length name ≡ 16 → rest ≡ number 4 units ++ after → units < 2 ^ 32
    → (name ≡ filled 16 bidder.name) × (units ≡ bidder.units)
unfolding bidders.entry_of
bidder_read bidder entry name rest after units has e cut len four small =
    let first = same_text 16 name (filled 16 bidder.name) rest _ len (name_sized bidder.name has.name.0.1) (sym cut ∙ e) in
    (first.0, (same_number 4 units bidder.units after _ small has.units (sym four ∙ first.1)).0)

pub same_bidder : {n m : List ℕ} {u v : ℕ} → n ≡ m → u ≡ v → ◌≡◌ {A = Bidder} (record { name = n; units = u }) (record { name = m; units = v })
same_bidder e f = cc

pub parent_small : (p : Option ℕ) → IfSome p (λ q. q < 255) → nodes.parent_byte p < 256
parent_small None h = omega arith
parent_small (Some p) h = omega (arith, h)

-- the fields of a node's bytes, as they are read one after another
module _ (entry name r1 r2 r3 unused r4 r5 r6 : List ℕ) (parent kind units opening : ℕ)
    (cut : entry ≡ name ++ r1) (len : length name ≡ 16) (e1 : r1 ≡ number 1 parent ++ r2) (e2 : r2 ≡ number 1 kind ++ r3) (e3 : r3 ≡ unused ++ r4) (two : length unused ≡ 2) (e4 : r4 ≡ number 4 units ++ r5) (e5 : r5 ≡ number 8 opening ++ r6)
    (small_parent : parent < 256) (small_kind : kind < 256) (small_units : units < 2 ^ 32) (small_opening : opening < 2 ^ 64) where
  record AreFields (named : List ℕ) (p k u o : ℕ) : Type 0 where
    pub name_is : name ≡ filled 16 named
    pub parent_is : parent ≡ p
    pub kind_is : kind ≡ k
    pub units_is : units ≡ u
    pub opening_is : opening ≡ o

  are_fields : (named : List ℕ) (p k u o : ℕ) → length named ≤ 16 → p < 256 → k < 256 → u < 2 ^ 32 → o < 2 ^ 64 → entry ≡ nodes.node_fields named p k u o → AreFields named p k u o
  are_fields named p k u o short lp lk lu lo e =
      let s0 = same_text 16 name (filled 16 named) r1 _ len (name_sized named short) (sym cut ∙ e) in
      let s1 = same_number 1 parent p r2 _ small_parent lp (sym e1 ∙ s0.1) in
      let s2 = same_number 1 kind k r3 _ small_kind lk (sym e2 ∙ s1.1) in
      let s3 = same_text 2 unused (number 2 0) r4 _ two (length-number 2 0) (sym e3 ∙ s2.1) in
      let s4 = same_number 4 units u r5 _ small_units lu (sym e4 ∙ s3.1) in
      let s5 = same_number 8 opening o r6 _ small_opening lo (sym e5 ∙ s4.1) in
      record { name_is = s0.0; parent_is = s1.0; kind_is = s2.0; units_is = s4.0; opening_is = s5.0 }

  -- the node read from these fields
  pub record ReadsNode (node : Node) : Type 0 where
    pub name_is : name ≡ filled 16 node.name
    pub parent_is : parent ≡ nodes.parent_byte node.parent
    pub terms_are : (read : Option TermsDraft) → (kind ≡ 1 → read ≡ Some (record { units = units; opening = opening })) → (kind ≡ 0 → read ≡ None) → option_map terms_said read ≡ node.terms

  pub node_read : (node : Node) → nodes.HasEntry node → entry ≡ nodes.node_of node → ReadsNode node
  unfolding nodes.entry_of
  node_read node has e = by node.terms has.units has.opening e
    where
      by : (t : Option Terms) → IfSome t (λ terms. terms.units < 2 ^ 32) → IfSome t (λ terms. terms.opening < 2 ^ 64) → entry ≡ nodes.entry_of node.name node.parent t → ReadsNode (record node { terms = t })
      by None u o e =
          let are = are_fields node.name (nodes.parent_byte node.parent) 0 0 0 has.name.0.1 (parent_small node.parent has.parent) (omega arith) (omega arith) (omega arith) e in
          record { name_is = are.name_is; parent_is = are.parent_is; terms_are = λ read licence none. ap (option_map terms_said) (none are.kind_is) }
      by (Some terms) u o e =
          let are = are_fields node.name (nodes.parent_byte node.parent) 1 terms.units terms.opening has.name.0.1 (parent_small node.parent has.parent) (omega arith) u o e in
          record { name_is = are.name_is; parent_is = are.parent_is; terms_are = λ read licence none. ap (option_map terms_said) (licence are.kind_is) ∙ ap Some (same_terms are.units_is are.opening_is) }
        where
          same_terms : {u v o p : ℕ} → u ≡ v → o ≡ p → ◌≡◌ {A = Terms} (record { units = u; opening = o }) (record { units = v; opening = p })
          same_terms e f = cc

pub same_node : {n m : List ℕ} {p q : Option ℕ} {t s : Option Terms} → n ≡ m → p ≡ q → t ≡ s → ◌≡◌ {A = Node} (record { name = n; parent = p; terms = t }) (record { name = m; parent = q; terms = s })
same_node e f g = cc
