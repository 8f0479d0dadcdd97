-- The address of a node is that of the node above it, and one step more.
use Rattle.toml_names.proofs.Common.{sym, ◌∙◌, arith, ◌≡◌, ℕ, ◌+◌, ◌<◌, List, [], ◌∷◌, ◌++◌, length, length-append, take, Some, None, Option, ap, subst, refl, slice_index_or, Address, Step, IsTree, Spot, address_under, addresses, address_at}
use Rattle.std.proofs.lemmas.Result.{on_ok_weaker}
use Rattle.toml_names.specs.declared.model.address.Step.TheVariants.{Name, Index}
use Rattle.toml_names.specs.mentions.Keys.{spelled_name}
use Rattle.toml_names.specs.tree.Nodes.{BeginsAt, under_of}
use Rattle.toml_names.proofs.lemmas.tree.NodeAddresses.{address_at-under}
use Rattle.toml_names.proofs.tree.name_tree.NameTree.+way.Goals as goal

begins : (above whole here next : Address) (s : Step) (depth : ℕ) → whole ≡ above ++ s ∷ [] → depth ≡ length above → take (length above) here ≡ above
    → take (depth + 1) next ≡ take depth here ++ s ∷ [] → take (length whole) next ≡ whole
begins above whole here next s depth is deep front put =
    let long : length whole ≡ depth + 1 = omega (arith, ap length is, length-append above (s ∷ []), deep) in
    ap (λ n. take n next) long ∙ put ∙ ap (λ n. take n here ++ s ∷ []) deep ∙ ap (λ p. p ++ s ∷ []) front ∙ sym is

module _ (nodes : List Spot) (tree : IsTree nodes) (id : ℕ) (low : id < length nodes) (d : Spot) where
  at_node : (u : Option (ℕ × Step)) → u ≡ (slice_index_or nodes id d).under → address_under (addresses nodes) u ≡ address_at nodes id
  at_node u is = ap (address_under (addresses nodes)) is ∙ sym (address_at-under nodes id d low (λ p s under. tree.rising id d p s low under))

  at_root : None ≡ (slice_index_or nodes id d).under → (here : Address) → BeginsAt nodes id here
  at_root is here = subst (λ a. take (length a) here ≡ a) (at_node None is) refl

  at_step : (p : ℕ) (s : Step) → Some (p, s) ≡ (slice_index_or nodes id d).under → (e : Spot) (depth : ℕ) → depth ≡ (slice_index_or nodes p e).depth → (here next : Address)
      → BeginsAt nodes p here → take (depth + 1) next ≡ take depth here ++ s ∷ [] → BeginsAt nodes id next
  at_step p s is e depth deep here next front put =
      let lower = tree.rising id d p s low (sym is) in
      begins (address_at nodes p) (address_at nodes id) here next s depth (sym (at_node (Some (p, s)) is)) (deep ∙ tree.deep p e (omega (arith, lower, low))) front put

pub returns-in-Root : goal.returns-in-Root
returns-in-Root t c =
    at_root c.args.self.now.nodes.items c.requires.tree c.args.id (omega arith) c.index.result.now (sym (ap under_of c.in-Root.is) ∙ c.under.ensures ∙ ap (λ (n : Spot). n.under) c.index.ensures) c.args.here.now

pub returns-in_ok-name-in-Name : goal.returns-in_ok-name-in-Name
returns-in_ok-name-in-Name t c =
    on_ok_weaker c.put_name.result
    (λ put. at_step c.args.self.now.nodes.items c.requires.tree c.args.id (omega arith) c.index.result.now c.in-Name.above (Name (spelled_name c.in-Name.text.now))
    (sym (ap under_of c.in-Name.is) ∙ c.under.ensures ∙ ap (λ (n : Spot). n.under) c.index.ensures)
    c.index-in-Name.result.now c.depth.result (c.depth.ensures ∙ ap (λ (n : Spot). n.depth) c.index-in-Name.ensures) c.set_fronts.new.here c.put_name.new.self c.in_ok-set_fronts-in-Name.ensures
    (put ∙ ap (λ n. take c.depth.result c.set_fronts.new.here ++ Name n ∷ []) (c.as_str.ensures.value ∙ c.in_ok-name-in-Name.ensures)))
    c.put_name.ensures

pub returns-in_ok-set_fronts-in-Index : goal.returns-in_ok-set_fronts-in-Index
returns-in_ok-set_fronts-in-Index t c =
    on_ok_weaker c.put_index.result
    (λ put. at_step c.args.self.now.nodes.items c.requires.tree c.args.id (omega arith) c.index.result.now c.in-Index.above (Index c.in-Index.index)
    (sym (ap under_of c.in-Index.is) ∙ c.under.ensures ∙ ap (λ (n : Spot). n.under) c.index.ensures)
    c.index-in-Index.result.now c.depth-in-Index.result (c.depth-in-Index.ensures ∙ ap (λ (n : Spot). n.depth) c.index-in-Index.ensures) c.set_fronts-in-Index.new.here c.put_index.new.self
    c.in_ok-set_fronts-in-Index.ensures put)
    c.put_index.ensures
