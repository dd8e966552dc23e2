-- What follows the key of a cookie says which entry follows the cookie.
use Rattle.std.proofs.Common.{◌≡◌, ◌≢◌, ℕ, ◌<◌, ◌≤◌, ◌^◌, ◌==◌, Bool, true, false, if◌then◌else◌, List, [], ◌∷◌, ◌++◌}
use Rattle.std.proofs.Common.{length, take, drop}
use Rattle.std.proofs.Common.{Option, Some, None, ◌⊎◌, inl, inr, refl, sym, ◌∙◌, ap, subst, arith}
use Rattle.std.proofs.lemmas.Bool.{cases_order, eq-eqb, eqb-true, lt-ltb}
use Rattle.std.specs.Prelude.{nat_lt, option_map, option_and_then, is_some, IfSome}
use Rattle.byteorder.specs.Endian.{big_bytes, big_number}
use Rattle.byteorder.specs.Numbers.{big_number-reads_back}
use Rattle.xdr_grammar.specs.Laws.{AreBytes}
use Rattle.pair_types.specs.declared.fault.PairFault.{PairFault}
use Rattle.pair_types.specs.declared.fault.PairFault.TheVariants.{Odd, HeightFull, Page}
use Rattle.pairs.specs.declared.at.At.{At}
use Rattle.pairs.specs.declared.at.At.TheVariants.{Live}
use Rattle.pairs.specs.Found.{IsBefore, IsNext, Follows}
use Rattle.pairs.specs.Lives.{Life, seen}
use Rattle.pairs.specs.Told.{PairsTold, Tells}
use Rattle.pairs.specs.Versions.{Versions, value_at}
use Rattle.fs_rules.specs.declared.name_entry.NameEntry.{NameEntry}
use Rattle.fs_rules.specs.Places.{names_at}
use Rattle.fs_rules.specs.Removing.{has_names}
use Rattle.fs_rules.specs.Sound.{Rise}
use Rattle.fs_rules.specs.Tree.{Tree}
use Rattle.fs_rules.specs.declared.place.Place.TheVariants.{Live as LivePlace}
use Rattle.fs_keys.specs.declared.key_parts.KeyParts.TheVariants.{First, Lane, Snapshot, Inode, Name, Cookie, Extent, Stale}
use Rattle.fs_keys.specs.declared.key_parts.KeyParts.TheVariants.{Times}
use Rattle.fs_keys.specs.declared.rows.CookieRow.{CookieRow}
use Rattle.fs_keys.specs.Keys.{Parts, HasBounds, key_of, parts_of, only}
use Rattle.fs_keys.specs.Values.{cookie_in}
use Rattle.fs_keys.proofs.KeyLaws.{said-found, said-bounds}
use Rattle.fs_shows.specs.Extents.{row}
use Rattle.fs_shows.specs.Nodes.{Holds, cookie_row, numbered}
use Rattle.fs_shows.specs.Shows.{Shows}
use Rattle.fs_shows.specs.Steps.{Reads, GivesUpOn}
use Rattle.fs_shows.specs.Views.{place_in}
use Rattle.fs_shows.proofs.Doing.{does-tell, reads-of, up-odd}
use Rattle.fs_shows.proofs.NameLists.{rise-below, rise-above}
use Rattle.fs_shows.proofs.Viewing.{view-shown, find-all, holds-unsaid}
use Rattle.dir_ops.specs.Listing.{next_entry, IsListed, cookie_of, cookie_at, SaysNext, NextFault}
use Rattle.dir_ops.proofs.Cookies.{cookie-order, order-cookie, between, numbered-cookie, next-numbered, next-least}

seen-lives : (at : At) (ls : List Life) (value : List ℕ) → seen at ls ≡ Some value → ls ≢ []
seen-lives at ls value is none = differs (ap (seen at) (sym none) ∙ is)
  where
    differs : None ≡ Some value → ⊥
    differs e = cc

said-one : {A : Type 0} (o : Option A) (a : A) → o ≡ None → o ≡ Some a → ⊥
said-one o a p q = cc

abbrev cookie_parts : ℕ → ℕ → Parts
cookie_parts directory cookie = Cookie directory cookie

abbrev key_front : ℕ → List ℕ → List ℕ
key_front directory rest = 6 ∷ (big_bytes 8 directory ++ rest)

-- a key of the table that begins so is a cookie of this directory
stem-says : (directory : ℕ) (rest : List ℕ) → directory < 2 ^ 64 → (parts_of (key_front directory rest) ≡ None → ⊥)
    → cookie_at directory (key_front directory rest) ≡ None → ⊥
stem-says directory rest fits within none =
    by_length (length (big_bytes 8 directory ++ rest) == 16) within none
  where
    number : big_number 8 (take 8 (big_bytes 8 directory ++ rest)) ≡ directory
    number = big_number-reads_back 8 directory [] fits

    parts : Parts
    parts =
        cookie_parts (big_number 8 (take 8 (big_bytes 8 directory ++ rest)))
        (big_number 8 (drop 8 (big_bytes 8 directory ++ rest)))

    by_length : (u : Bool) → (only u parts ≡ None → ⊥) → option_and_then (cookie_of directory) (only u parts) ≡ None → ⊥
    by_length false within none = within refl
    by_length true within none = own-number (big_number 8 (take 8 (big_bytes 8 directory ++ rest)))
        (big_number 8 (drop 8 (big_bytes 8 directory ++ rest))) number none
      where
        own-number : (n k : ℕ) → n ≡ directory → (if n == directory then Some k else None) ≡ None → ⊥
        own-number n k is none = differs (sym (rw (eq-eqb n directory is) refl) ∙ none)
          where
            differs : Some k ≡ None → ⊥
            differs e = cc

one-row : (o : Option CookieRow) (a b : CookieRow) → o ≡ Some a → o ≡ Some b → a ≡ b
one-row o a b p q = cc

entry-same : (f e : NameEntry) → f.cookie ≡ e.cookie → cookie_row f ≡ cookie_row e → f ≡ e
entry-same f e cookie row =
    ap (λ (k : ℕ). record { cookie = k; name = f.name; fileid = f.fileid }) cookie
    ∙ ap (λ (r : CookieRow). record { cookie = e.cookie; name = r.name; fileid = r.fileid }) row

module _ (v : Versions) (t : Tree) (at : At) (directory cookie : ℕ) (fits : directory < 2 ^ 64) (fits' : cookie < 2 ^ 64)
    (shows : Shows v t)
    (listed : IsListed at directory t) where
  cookie-held : (k : ℕ) → k < 2 ^ 64 → Holds cookie_in (row v at (Cookie directory k))
      (option_map cookie_row (numbered k (names_at t (place_in at directory))))
  cookie-held k less = (view-shown v t at shows listed.kept).cookies directory k fits less

  -- the record of an entry is there
  there : (e : NameEntry) → e.cookie < 2 ^ 64 → numbered e.cookie (names_at t (place_in at directory)) ≡ Some e
      → row v at (Cookie directory e.cookie) ≡ None → ⊥
  there e less is none =
      absent (subst (λ (o : Option NameEntry). Holds cookie_in (row v at (Cookie directory e.cookie))
      (option_map cookie_row o)) is (cookie-held e.cookie less))
    where
      absent : Holds cookie_in (row v at (Cookie directory e.cookie)) (Some (cookie_row e)) → ⊥
      absent holds = subst (λ (x : Option (List ℕ)). Holds cookie_in x (Some (cookie_row e))) none holds

  -- a listed cookie fits its key
  entry-fits : (e : NameEntry) → next_entry cookie (names_at t (place_in at directory)) ≡ Some e → e.cookie < 2 ^ 64
  entry-fits e is =
      let below : e.cookie < listed.next =
      (find-all (λ e. nat_lt cookie e.cookie) (λ e. e.cookie < listed.next) (names_at t (place_in at directory)) e
      (rise-below 3 listed.next (names_at t (place_in at directory)) listed.rises) is).0 in
      omega (arith, below, listed.most)

  -- an entry behind the cookie has a key behind the cookie's, and its record is there
  behind-key : (e : NameEntry) → next_entry cookie (names_at t (place_in at directory)) ≡ Some e
      → IsBefore (key_of (Cookie directory cookie)) (key_of (Cookie directory e.cookie))
  behind-key e is = cookie-order directory cookie e.cookie (next-numbered cookie (names_at t (place_in at directory)) e is).0
      (entry-fits e is)

  pub none-follows : Follows at (key_of (Cookie directory cookie)) None v
      → next_entry cookie (names_at t (place_in at directory)) ≡ None
  none-follows follows = by_next (next_entry cookie (names_at t (place_in at directory))) refl
    where
      by_next : (o : Option NameEntry) → next_entry cookie (names_at t (place_in at directory)) ≡ o → o ≡ None
      by_next None is = refl
      by_next (Some e) is =
          absurd (there e (entry-fits e is) (next-numbered cookie (names_at t (place_in at directory)) e is).1
          (follows (key_of (Cookie directory e.cookie)) (behind-key e is)))

  module _ (key value : List ℕ) (is-next : IsNext at (key_of (Cookie directory cookie)) key value v) where
    -- no entry lies between
    not-before : (e : NameEntry) → next_entry cookie (names_at t (place_in at directory)) ≡ Some e
        → IsBefore (key_of (Cookie directory e.cookie)) key → ⊥
    not-before e is before =
        there e (entry-fits e is) (next-numbered cookie (names_at t (place_in at directory)) e is).1
        (is-next.first (key_of (Cookie directory e.cookie)) (behind-key e is) before)

    in-table : (rest : List ℕ) → key ≡ key_front directory rest → cookie_at directory key ≡ None → ⊥
    in-table rest front none =
        stem-says directory rest fits
        (λ outside. seen-lives at (v.lives key) value is-next.has (shows.within.table key (ap parts_of front ∙ outside)))
        (ap (cookie_at directory) (sym front) ∙ none)

    pub other-follows : cookie_at directory key ≡ None → next_entry cookie (names_at t (place_in at directory)) ≡ None
    other-follows none = by_next (next_entry cookie (names_at t (place_in at directory))) refl
      where
        by_next : (o : Option NameEntry) → next_entry cookie (names_at t (place_in at directory)) ≡ o → o ≡ None
        by_next None is = refl
        by_next (Some e) is =
            let r = between (6 ∷ big_bytes 8 directory) (big_bytes 8 cookie) (big_bytes 8 e.cookie) key is-next.behind
            (not-before e is) in
            absurd (in-table r.0 r.1 none)

    pub entry-follows : (e : NameEntry) → key ≡ key_of (Cookie directory e.cookie) → e.cookie < 2 ^ 64
        → cookie_in value ≡ Some (cookie_row e)
        → next_entry cookie (names_at t (place_in at directory)) ≡ Some e
    entry-follows e own low says =
        let h = said-entry (numbered e.cookie (names_at t (place_in at directory))) refl held in
        let less : cookie < e.cookie =
        order-cookie directory cookie e.cookie fits' low (subst
        (IsBefore (key_of (Cookie directory cookie))) own is-next.behind) in
        let n = next-least cookie 3 listed.next e.cookie (names_at t (place_in at directory)) e listed.rises h less in
        by_order n.0 n.1 n.2 h (cases_order n.0.cookie e.cookie)
      where
        held : Holds cookie_in (Some value) (option_map cookie_row (numbered e.cookie (names_at t (place_in at directory))))
        held =
            subst (λ (x : Option (List ℕ)). Holds cookie_in x
            (option_map cookie_row (numbered e.cookie (names_at t (place_in at directory)))))
            (ap (value_at at v) (sym own) ∙ is-next.has) (cookie-held e.cookie low)

        said-entry : (o : Option NameEntry) → numbered e.cookie (names_at t (place_in at directory)) ≡ o
            → Holds cookie_in (Some value) (option_map cookie_row o)
            → numbered e.cookie (names_at t (place_in at directory)) ≡ Some e
        said-entry None is holds = absurd holds
        said-entry (Some f) is holds =
            let same : cookie_row f ≡ cookie_row e = one-row (cookie_in value) (cookie_row f) (cookie_row e) holds says in
            let own_cookie : f.cookie ≡ e.cookie = numbered-cookie e.cookie (names_at t (place_in at directory)) f is in
            is ∙ ap (λ (x : NameEntry). Some x) (entry-same f e own_cookie same)

        by_order : (n : NameEntry) → next_entry cookie (names_at t (place_in at directory)) ≡ Some n → n.cookie ≤ e.cookie
            → numbered e.cookie (names_at t (place_in at directory)) ≡ Some e
            → (n.cookie ≡ e.cookie) ⊎ ((n.cookie < e.cookie) ⊎ (e.cookie < n.cookie))
            → next_entry cookie (names_at t (place_in at directory)) ≡ Some e
        by_order n is most h (inl same) =
            let m = (next-numbered cookie (names_at t (place_in at directory)) n is).1 in
            let m' = subst (λ (k : ℕ). numbered k (names_at t (place_in at directory)) ≡ Some n) same m in
            is ∙ sym m' ∙ h
        by_order n is most h (inr (inl less)) =
            absurd (not-before n is (subst (IsBefore (key_of (Cookie directory n.cookie))) (sym own)
            (cookie-order directory n.cookie e.cookie less low)))
        by_order n is most h (inr (inr more)) = absurd (omega (arith, most, more))

-- ---- of the trees that may lie below

module _ {S W : Type 0} (told : PairsTold S W) (old new : S) (at : At) (directory cookie : ℕ) (fits : directory < 2 ^ 64)
    (fits' : cookie < 2 ^ 64) where
  pub none-reads : Tells told old new (Follows at (key_of (Cookie directory cookie)) None)
      → Reads told old new (IsListed at directory) (λ t. next_entry cookie (names_at t (place_in at directory)) ≡ None)
  none-reads tells =
      reads-of told old new (Follows at (key_of (Cookie directory cookie)) None) (IsListed at directory)
      (λ t. next_entry cookie (names_at t (place_in at directory)) ≡ None) tells
      (λ v t shows follows listed. none-follows v t at directory cookie fits fits' shows listed follows)

  pub next-reads : (key value : List ℕ) (found : Option NameEntry)
      → Tells told old new (IsNext at (key_of (Cookie directory cookie)) key value)
      → SaysNext directory key value found → Reads told old new (IsListed at directory)
      (λ t. next_entry cookie (names_at t (place_in at directory)) ≡ found)
  next-reads key value None tells says =
      reads-of told old new (IsNext at (key_of (Cookie directory cookie)) key value) (IsListed at directory)
      (λ t. next_entry cookie (names_at t (place_in at directory)) ≡ None) tells
      (λ v t shows is-next listed. other-follows v t at directory cookie fits fits' shows listed key value is-next says)
  next-reads key value (Some e) tells says =
      reads-of told old new (IsNext at (key_of (Cookie directory cookie)) key value) (IsListed at directory)
      (λ t. next_entry cookie (names_at t (place_in at directory)) ≡ Some e) tells
      (λ v t shows is-next listed. entry-follows v t at directory cookie fits fits' shows listed key value is-next e says.0 says.1
      says.2)

  pub next-up : (key value : List ℕ) (fault : PairFault) → Tells told old new
      (IsNext at (key_of (Cookie directory cookie)) key value)
      → NextFault directory key value fault → GivesUpOn told old new (IsListed at directory) fault
  next-up key value Odd tells unsaid =
      up-odd told old new (λ v. v) (IsNext at (key_of (Cookie directory cookie)) key value) (IsListed at directory)
      (does-tell told old new (IsNext at (key_of (Cookie directory cookie)) key value) tells)
      (λ v t shows is-next listed. holds-unsaid cookie_in value
      (option_map cookie_row (numbered unsaid.cookie (names_at t (place_in at directory)))) unsaid.nothing
      (subst (λ (x : Option (List ℕ)). Holds cookie_in x (option_map cookie_row
      (numbered unsaid.cookie (names_at t (place_in at directory)))))
      (ap (value_at at v) (sym unsaid.own) ∙ is-next.has)
      (cookie-held v t at directory cookie fits fits' shows listed unsaid.cookie unsaid.fits)))
  next-up key value HeightFull tells unsaid = unsaid
  next-up key value (Page fault) tells unsaid = inl unsaid

-- ---- what a key says

own-parts : (directory : ℕ) (p : Parts) (cookie : ℕ) → cookie_of directory p ≡ Some cookie → p ≡ Cookie directory cookie
own-parts directory First cookie is = absurd (cc)
own-parts directory (Lane lane) cookie is = absurd (cc)
own-parts directory (Snapshot number) cookie is = absurd (cc)
own-parts directory (Inode id) cookie is = absurd (cc)
own-parts directory (Name other name) cookie is = absurd (cc)
own-parts directory (Cookie other k) cookie is = by_test (other == directory) refl is
  where
    by_test : (u : Bool) → (other == directory) ≡ u → (if u then Some k else None) ≡ Some cookie
        → cookie_parts other k ≡ cookie_parts directory cookie
    by_test true at is =
        let same : k ≡ cookie = cc in
        ap (λ (d : ℕ). Cookie d k) (eqb-true other directory at) ∙ ap (λ (c : ℕ). Cookie directory c) same
    by_test false at is = absurd (cc)
own-parts directory (Extent file index) cookie is = absurd (cc)
own-parts directory (Stale file) cookie is = absurd (cc)
own-parts directory Times cookie is = absurd (cc)

-- of a key of bytes the cookie tells all
pub own-key : (directory : ℕ) (key : List ℕ) (p : Parts) (r : Option ℕ) → AreBytes key → parts_of key ≡ Some p
    → r ≡ cookie_of directory p
    → IfSome r (λ cookie. key ≡ key_of (Cookie directory cookie))
own-key directory key p None are says is = tt
own-key directory key p (Some cookie) are says is =
    sym (said-found key p are says) ∙ ap key_of (own-parts directory p cookie (sym is))

pub own-fits : (directory : ℕ) (key : List ℕ) (p : Parts) (r : Option ℕ) → AreBytes key → parts_of key ≡ Some p
    → r ≡ cookie_of directory p
    → IfSome r (λ cookie. cookie < 2 ^ 64)
own-fits directory key p None are says is = tt
own-fits directory key p (Some cookie) are says is =
    let bounds : HasBounds (Cookie directory cookie) = subst HasBounds (own-parts directory p cookie (sym is))
    (said-bounds key p are says) in
    bounds.1

-- a directory whose names have no cookie behind 0 has none
pub none-behind : (t : Tree) (directory : ℕ) (found : Option NameEntry) → IsListed Live directory t
    → next_entry 0 (names_at t (place_in Live directory)) ≡ found → has_names t (LivePlace directory) ≡ is_some found
none-behind t directory found listed is = by_names (names_at t (LivePlace directory)) listed.rises is
  where
    by_names : (names : List NameEntry) → Rise 3 listed.next names → next_entry 0 names ≡ found
        → nat_lt 0 (length names) ≡ is_some found
    by_names [] rise is = subst (λ (o : Option NameEntry). false ≡ is_some o) is refl
    by_names (e ∷ names) rise is =
        let up : 3 ≤ e.cookie = rise-above 3 listed.next (e ∷ names) rise 0 e (omega arith) in
        let first : nat_lt 0 e.cookie ≡ true = lt-ltb 0 e.cookie (omega (arith, up)) in
        subst (λ (o : Option NameEntry). nat_lt 0 (length (e ∷ names)) ≡ is_some o) is
        (rw first (lt-ltb 0 (length (e ∷ names)) (omega arith)))

pub empty-reads : {S W : Type 0} (told : PairsTold S W) (old new : S) (directory : ℕ) (found : Option NameEntry)
    → Reads told old new (IsListed Live directory) (λ t. next_entry 0 (names_at t (place_in Live directory)) ≡ found)
    → Reads told old new (IsListed Live directory) (λ t. has_names t (LivePlace directory) ≡ is_some found)
empty-reads told old new directory found reads = record {
  stays = reads.stays;
  learns = λ w t agrees lies listed. none-behind t directory found listed (reads.learns w t agrees lies listed);
}
