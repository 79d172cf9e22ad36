-- A new store has the root alone.
use Rattle.std.specs.Prelude.{◌≡◌, ℕ, false, ◌||◌, List, [], ◌∷◌, option_map, option_and_then, Option, Some, None, refl}
use Rattle.std.proofs.Common.{sym, ap, subst, ◌∙◌, inl, inr, eq-eqb}
use Rattle.std.proofs.lemmas.Bool.{cases_eq}
use Rattle.std.proofs.lemmas.Option.{cond_some}
use Rattle.std.specs.Ordering.{nat_cmp}
use Rattle.std.specs.BTreeMap.{is_at}
use Rattle.sf_path.specs.Names.{Name, Path}
use Rattle.sf_call.specs.Attributes.{Object, made_at}
use Rattle.sf_call.specs.Attributes.Object.{Directory}
use Rattle.sf_call.specs.Tree.{empty_tree, label_at, object_of}
use Rattle.sf_inode.specs.declared.node.Node.{Node}
use Rattle.sf_inode.specs.declared.node.Content.TheVariants as content
use Rattle.sf_inode.specs.declared.handle.OpenHandle.{OpenHandle}
use Rattle.sf_inode.specs.Nodes.{child_in}
use Rattle.sf_keeps.specs.Steps.{walk}
use Rattle.sf_keeps.specs.Shows.{Shows, label_by}
use Rattle.sf_inode.specs.Stores.{StoreState, IsFirst, node_in, child_of, shown_node, shown_of}
use Rattle.sf_keeps.specs.Keeps.{view_of}
use Rattle.sf_keeps.proofs.Sound.{is_directory_shown}
use Rattle.sf_keeps.proofs.Shown.{nat_same}

abbrev pub root_node : Node
root_node = record { label = 0; metadata = made_at 0o755 0; content = content.Directory []; holder = None; names = 1; opens = 0 }

abbrev root_object : Object
root_object = Directory (made_at 0o755 0)

module _ (s : StoreState) (f : IsFirst s) where
  pub root_or_none : (x : ℕ) (P : Option Node → Type 0) → (s.root ≡ x → P (Some root_node)) → P None → P (node_in s.nodes x)
  root_or_none x P here none =
      elim (cases_eq s.root x) [
        | inl e ↦ subst P (sym (ap (node_in s.nodes) (sym e) ∙ f.root)) (here e)
        | inr ne ↦ subst P (sym (f.others x (λ e. ne (sym e)))) none
      ]

  pub no_steps : (x : ℕ) (n : Name) → child_of s.nodes x n ≡ None
  no_steps x n = root_or_none x (λ o. option_and_then (λ (z : Node). child_in z.content n) o ≡ None) (λ _. refl) refl

  shown_root : shown_of s.nodes s.root ≡ Some (0, root_object)
  shown_root = ap (option_map shown_node) f.root

  shown_first : (x label : ℕ) (o : Object) → shown_of s.nodes x ≡ Some (label, o) → (s.root ≡ x) × (◌≡◌ {A = Option (ℕ × Object)} (Some (0, root_object)) (Some (label, o)))
  shown_first x label o = root_or_none x (λ v. option_map shown_node v ≡ Some (label, o) → (s.root ≡ x) × (◌≡◌ {A = Option (ℕ × Object)} (Some (0, root_object)) (Some (label, o)))) (λ e g. (e, g)) (λ g. cc)

  names_first : (q : Path) → label_at empty_tree.names q ≡ option_and_then (label_by (shown_of s.nodes)) (walk (child_of s.nodes) s.root q)
  names_first [] = sym (ap (option_map (λ (x : ℕ × Object). x.0)) shown_root)
  names_first (n ∷ q) = sym (ap (λ o. option_and_then (label_by (shown_of s.nodes)) (option_and_then (λ y. walk (child_of s.nodes) y q) o)) (no_steps s.root n))

  pub shows_first : Shows (view_of s) empty_tree
  shows_first = record {
    by = record {
      names = names_first;
      objects = λ i l o e. let w = (shown_first i l o e).1 in
          ap (λ (x : Option (ℕ × Object)). option_and_then (λ z. object_of empty_tree.objects z.0) x) (sym w) ∙ ap (option_map (λ (x : ℕ × Object). x.1)) w;
      found = λ l o e. let w = cond_some (is_at (nat_cmp l) 0) root_object o e in (s.root, shown_root ∙ (λ i. Some (sym (nat_same l 0 w.0) i, w.1 i)));
      handles = λ a b. sym (ap (λ (hs : List (ℕ × List (ℕ × OpenHandle))). (view_of (record { nodes = s.nodes; root = s.root; sessions = hs; look_ups = s.look_ups })).opens a b) f.sessions);
      sound = record {
        labels = λ i j l o u e g. sym ((shown_first i l o e).0) ∙ (shown_first j l u g).0;
        one = λ x y c n m is e g. let h = no_steps x n in absurd (cc);
        top = λ x n e. let h = no_steps x n in cc;
        owns = λ x c n e. let h = no_steps x n in absurd (cc);
        to = λ x c n e g. let h = no_steps x n in cc;
        rooted = ap is_directory_shown shown_root;
      };
    };
    ordered = record { names = tt; objects = tt; handles = tt };
    used = λ l o e. ap (λ x. (x || false) || false) (eq-eqb 0 l (sym (nat_same l 0 (cond_some (is_at (nat_cmp l) 0) root_object o e).0)));
  }
