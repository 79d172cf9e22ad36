-- A page of a listing, during the scan of the names.
use Rattle.std.proofs.Common.{◌≡◌, ◌≢◌, ◌≤◌, ◌<◌, ℕ, cond, List, [], ◌∷◌, ◌++◌, length, length-append, filter_map, take, Option, Some, None, option_map, IfSome, refl, sym, ap, ◌∙◌, subst, append_assoc, arith}
use Rattle.std.specs.List.{cons_option, last_or}
use Rattle.std.proofs.lemmas.List.{append-nil, take_all, take-append-le}
use Rattle.sf_path.specs.Names.{Name, Path}
use Rattle.sf_reply.specs.declared.reply.Entry.{Entry}
use Rattle.sf_reply.specs.declared.reply.Reply.TheVariants as reply
use Rattle.sf_reply.specs.declared.reply.StatusCode.TheVariants.{EndOfFile, Failure}
use Rattle.sf_call.specs.declared.handle.Handle.{Handle}
use Rattle.sf_call.specs.Attributes.{Object}
use Rattle.sf_call.specs.Attributes.Object.{Directory, File}
use Rattle.sf_call.specs.Tree.{Tree}
use Rattle.sf_call.specs.Listings.{path_of, listing_of, names_of, last_name}
use Rattle.sf_call.specs.Changes.Change.{SetHandle}
use Rattle.sf_call.specs.Calls.{refuses, lists, read_directory}
use Rattle.sf_plain.proofs.Calls.{is_directory_node}

-- the entries so far, and those of the names left, are those of all names
pub record IsPage (f : Path × ℕ → Option Entry) (names left : List (Path × ℕ)) (entries : List Entry) (last : Option Name) : Type 0 where
  pub parts : entries ++ filter_map f left ≡ filter_map f names
  pub short : length entries ≤ 32
  pub last_given : last ≡ last_name entries

pub page_begins : (f : Path × ℕ → Option Entry) (names : List (Path × ℕ)) → IsPage f names names [] None
page_begins f names = record { parts = refl; short = omega arith; last_given = refl }

last_or-push : (o : Option Name) (entries : List Entry) (e : Entry) → last_or o (names_of (entries ++ e ∷ [])) ≡ Some e.filename
last_or-push o [] e = refl
last_or-push o (x ∷ xs) e = last_or-push (Some x.filename) xs e

pub page_grows : {f : Path × ℕ → Option Entry} {names left : List (Path × ℕ)} {n : Path × ℕ} {entries : List Entry} {last : Option Name} (e : Entry) (name : Name)
    → IsPage f names (n ∷ left) entries last → length entries ≢ 32 → Some e ≡ f n → name ≡ e.filename → IsPage f names left (entries ++ e ∷ []) (Some name)
page_grows {f} {names} {left} {n} {entries} {last} e name page room is named = record {
  parts = append_assoc entries (e ∷ []) (filter_map f left) ∙ ap (λ o. entries ++ cons_option o (filter_map f left)) is ∙ page.parts;
  short = let most = page.short in omega (arith, length-append entries (e ∷ []));
  last_given = ap Some named ∙ sym (last_or-push None entries e);
}

pub page_skips : (f : Path × ℕ → Option Entry) (names left : List (Path × ℕ)) (n : Path × ℕ) (entries : List Entry) (last : Option Name)
    → IsPage f names (n ∷ left) entries last → None ≡ f n → IsPage f names left entries last
page_skips f names left n entries last page is = record {
  parts = ap (λ o. entries ++ cons_option o (filter_map f left)) is ∙ page.parts;
  short = page.short;
  last_given = page.last_given;
}

first_full : (entries rest : List Entry) → length entries ≡ 32 → take 32 (entries ++ rest) ≡ entries
first_full entries rest full = take-append-le 32 entries rest (omega arith) ∙ take_all 32 entries (omega arith)

pub page_full : {f : Path × ℕ → Option Entry} {names left : List (Path × ℕ)} {entries : List Entry} {last : Option Name}
    → IsPage f names left entries last → length entries ≡ 32 → entries ≡ take 32 (filter_map f names)
page_full {f} {names} {left} {entries} {last} page full = sym (first_full entries (filter_map f left) full) ∙ ap (λ (es : List Entry). take 32 es) page.parts

pub page_ends : {f : Path × ℕ → Option Entry} {names left : List (Path × ℕ)} {entries : List Entry} {last : Option Name}
    → IsPage f names left entries last → left ≡ [] → entries ≡ take 32 (filter_map f names)
page_ends {f} {names} {left} {entries} {last} page none =
    sym (take_all 32 entries page.short) ∙ ap (λ (es : List Entry). take 32 es) (sym (append-nil entries) ∙ ap (λ (rest : List (Path × ℕ)). entries ++ filter_map f rest) (sym none) ∙ page.parts)

pub last_full : {f : Path × ℕ → Option Entry} {names left : List (Path × ℕ)} {entries : List Entry} {last : Option Name}
    → IsPage f names left entries last → length entries ≡ 32 → last ≡ last_name (take 32 (filter_map f names))
last_full {f} {names} {left} {entries} {last} page full = page.last_given ∙ ap last_name (page_full page full)

pub last_ends : {f : Path × ℕ → Option Entry} {names left : List (Path × ℕ)} {entries : List Entry} {last : Option Name}
    → IsPage f names left entries last → left ≡ [] → last ≡ last_name (take 32 (filter_map f names))
last_ends {f} {names} {left} {entries} {last} page none = page.last_given ∙ ap last_name (page_ends page none)

pub lists_opened : (tree : Tree) (number : ℕ) (h : Handle) (o : Object)
    → read_directory tree number (Some (h, o)) ≡ cond (is_directory_node o) (lists number h (listing_of tree h.listed (path_of tree.names h.label))) (refuses Failure)
lists_opened tree number h (Directory m) = refl
lists_opened tree number h (File m contents) = refl

pub lists_none : (number : ℕ) (h : Handle) (entries : List Entry) → entries ≡ [] → lists number h entries ≡ refuses EndOfFile
lists_none number h entries none = ap (lists number h) none

pub lists_some : (number : ℕ) (h : Handle) (entries : List Entry) → entries ≢ [] → lists number h entries ≡ record { reply = reply.Names entries; changes = SetHandle number (record h { listed = last_name entries }) ∷ [] }
lists_some number h [] some = absurd (some refl)
lists_some number h (e ∷ es) some = refl

-- This entry and its name are the result of a name.
pub record GivesEntry (o : Option Entry) (found : Option (Entry × Name)) (e : Entry) (name : Name) : Type 0 where
  pub given : option_map (λ x. x.0) found ≡ o
  pub is : found ≡ Some (e, name)
  pub named : IfSome found (λ x. x.1 ≡ x.0.filename)

-- one more name
pub page_turn : {f : Path × ℕ → Option Entry} {names left rest : List (Path × ℕ)} {n : Path × ℕ} {entries items : List Entry} {last : Option Name} {found : Option (Entry × Name)} {e : Entry} {name : Name}
    → IsPage f names left entries last → left ≡ n ∷ rest → length entries < 32 → GivesEntry (f n) found e name → items ≡ entries ++ e ∷ [] → IsPage f names rest items (Some name)
page_turn {f} {names} {left} {rest} {n} {entries} {items} {last} {found} {e} {name} page more room g grown =
    subst (λ (es : List Entry). IsPage f names rest es (Some name)) (sym grown)
    (page_grows e name (subst (λ (l : List (Path × ℕ)). IsPage f names l entries last) more page) (λ full. let less : length entries < 32 = room in absurd (omega arith))
    (sym (ap (λ (o : Option (Entry × Name)). option_map (λ x. x.0) o) g.is) ∙ g.given)
    (subst (λ (o : Option (Entry × Name)). IfSome o (λ x. x.1 ≡ x.0.filename)) g.is g.named))
