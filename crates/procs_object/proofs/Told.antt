-- The rows of what is told of an object.
use Rattle.std.proofs.Common.{◌≡◌, ◌∙◌, ℕ, ◌^◌, Bool, true, false, if◌then◌else◌, List, [], refl, sym, ap, Option, Some, Ok, Err}
use Rattle.std.specs.Prelude.{bit_and}
use Rattle.nfs3_types.specs.declared.args.AccessArgs.{AccessArgs}
use Rattle.nfs3_types.specs.declared.attributes.Fattr.{Fattr}
use Rattle.nfs3_types.specs.declared.body.Body.{Body}
use Rattle.nfs3_types.specs.declared.body.Body.TheVariants.{GetAttr, Access, ReadLink, FsStat, FsInfo, PathConf}
use Rattle.nfs3_types.specs.declared.cred.Cred.{Cred}
use Rattle.nfs3_types.specs.declared.status.Status.{Status}
use Rattle.nfs3_types.specs.declared.status.Status.TheVariants.{Inval}
use Rattle.fs_rules.specs.declared.inode.Inode.{Inode as Kept}
use Rattle.fs_rules.specs.declared.place.Place.{Place}
use Rattle.fs_rules.specs.Attributes.{is_link}
use Rattle.fs_rules.specs.Checks.{Check, ◌>>=◌, need, find_object, told}
use Rattle.fs_rules.specs.Limits.{told_transfer, told_listing, most_size, most_links, longest_name}
use Rattle.fs_rules.specs.Places.{Object, attributes, content_at, content_of}
use Rattle.fs_rules.specs.Telling.{get_attr, access, read_link, fs_stat, fs_info, path_conf, allowed}
use Rattle.fs_rules.specs.Tree.{Tree, Node}
use Rattle.procs_object.specs.declared.object.Found.{Found}
use Rattle.procs_object.specs.Finding.{IsObject}

module _ (t : Tree) (x : Found) (o : Object) (is : IsObject t x o) where
  pub object-place : o.place ≡ x.place
  object-place = ap (λ (o : Object). o.place) is.is

  pub object-inode : o.inode ≡ x.inode.head.kept
  object-inode = ap (λ (o : Object). o.inode) is.is ∙ sym is.inode.kept

  target-is : (b : Bool) (content : List ℕ) → b ≡ true → content ≡ (if b then content else [])
  target-is b content link = rw link refl

  -- a link's content is the path that its inode says
  pub object-target : is_link x.inode.head.kept.kind ≡ true → content_at t o.place ≡ x.inode.target
  object-target link =
      ap (λ (p : Place). content_at t p) object-place ∙ ap (λ (n : Option Node). content_of n) is.there
      ∙ target-is (is_link is.node.inode.kind) is.node.content (ap (λ (k : Kept). is_link k.kind) (sym is.inode.kept) ∙ link)
      ∙ sym is.inode.target

  -- ---- a row that tells of what the handle leads to

  module _ (check : Check Object) (next : Object → Check Body) where
    -- the check found it
    pub told-so : (body : Body) → check ≡ Ok o → next o ≡ Ok body → told t (check >>= next) ≡ Ok
        (record { body = body; tree = t })
    told-so body found gives = ap (λ (c : Check Object). told t (c >>= next)) found ∙ ap (λ (c : Check Body). told t c) gives

    pub told-not : (status : Status) → check ≡ Ok o → next o ≡ Err status → told t (check >>= next) ≡ Err status
    told-not status found gives = ap (λ (c : Check Object). told t (c >>= next)) found ∙ ap (λ (c : Check Body). told t c) gives

    -- its attributes are told among constants
    pub told-by : (body : Fattr → Body) → check ≡ Ok o → next o ≡ Ok (body (attributes t o))
        → told t (check >>= next) ≡ Ok (record { body = body x.attributes; tree = t })
    told-by body found gives = told-so (body x.attributes) found (gives ∙ ap (λ (a : Fattr). Ok (body a)) is.attributes)

-- the handle leads nowhere
pub told-refused : (t : Tree) (check : Check Object) (next : Object → Check Body) (status : Status) → check ≡ Err status
    → told t (check >>= next) ≡ Err status
told-refused t check next status refused = ap (λ (c : Check Object). told t (c >>= next)) refused

-- ---- what is told beside the attributes

abbrev pub access-body : Fattr → ℕ → Body
access-body a bits = Access (record { attributes = Some a; access = bits })

abbrev pub link-body : Fattr → List ℕ → Body
link-body a target = ReadLink (record { attributes = Some a; target = target })

abbrev link-told : Tree → Object → Check Body
link-told t o = need (is_link o.inode.kind) Inval >>= (λ _. Ok (link-body (attributes t o) (content_at t o.place)))

abbrev pub stat-body : Fattr → Body
stat-body a = FsStat (record {
  attributes = Some a;
  tbytes = 2 ^ 60;
  fbytes = 2 ^ 60;
  abytes = 2 ^ 60;
  tfiles = 2 ^ 60;
  ffiles = 2 ^ 60;
  afiles = 2 ^ 60;
  invarsec = 0;
})

abbrev pub info-body : Fattr → Body
info-body a = FsInfo (record {
  attributes = Some a;
  rtmax = 32768;
  rtpref = 32768;
  rtmult = 4096;
  wtmax = 32768;
  wtpref = 32768;
  wtmult = 4096;
  dtpref = 32768;
  maxfilesize = 2 ^ 40;
  time_delta = record { seconds = 0; nanos = 1 };
  properties = 27;
})

abbrev pub conf-body : Fattr → Body
conf-body a = PathConf (record {
  attributes = Some a;
  linkmax = 32000;
  name_max = 255;
  no_trunc = true;
  chown_restricted = true;
  case_insensitive = false;
  case_preserving = true;
})

-- ---- the rows

module _ (t : Tree) (handle : List ℕ) where
  module _ (status : Status) (refused : find_object t handle ≡ Err status) where
    pub get_attr-refused : told t (get_attr t handle) ≡ Err status
    unfolding get_attr
    get_attr-refused = told-refused t (find_object t handle) (λ o. Ok (GetAttr (attributes t o))) status refused

    pub read_link-refused : told t (read_link t handle) ≡ Err status
    unfolding read_link
    read_link-refused = told-refused t (find_object t handle) (link-told t) status refused

    pub fs_stat-refused : told t (fs_stat t handle) ≡ Err status
    unfolding fs_stat
    fs_stat-refused = told-refused t (find_object t handle) (λ o. Ok (stat-body (attributes t o))) status refused

    pub fs_info-refused : told t (fs_info t handle) ≡ Err status
    unfolding fs_info told_transfer told_listing most_size
    fs_info-refused = told-refused t (find_object t handle) (λ o. Ok (info-body (attributes t o))) status refused

    pub path_conf-refused : told t (path_conf t handle) ≡ Err status
    unfolding path_conf most_links longest_name
    path_conf-refused = told-refused t (find_object t handle) (λ o. Ok (conf-body (attributes t o))) status refused

  module _ (x : Found) (o : Object) (found : find_object t handle ≡ Ok o) (is : IsObject t x o) where
    pub get_attr-told : told t (get_attr t handle) ≡ Ok (record { body = GetAttr x.attributes; tree = t })
    unfolding get_attr
    get_attr-told = told-by t x o is (find_object t handle) (λ o. Ok (GetAttr (attributes t o)))
        (λ (a : Fattr). GetAttr a) found refl

    pub read_link-told : is_link x.inode.head.kept.kind ≡ true
        → told t (read_link t handle)
        ≡ Ok (record { body = ReadLink (record { attributes = Some x.attributes; target = x.inode.target }); tree = t })
    unfolding read_link
    read_link-told link =
        told-so t x o is (find_object t handle) (link-told t)
        (ReadLink (record { attributes = Some x.attributes; target = x.inode.target })) found
        (ap (λ (b : Bool). need b Inval >>= (λ _. Ok (link-body (attributes t o) (content_at t o.place))))
        (ap (λ (k : Kept). is_link k.kind) (object-inode t x o is) ∙ link)
        ∙ ap (λ (a : Fattr). Ok (link-body a (content_at t o.place))) is.attributes
        ∙ ap (λ (target : List ℕ). Ok (link-body x.attributes target)) (object-target t x o is link))

    pub read_link-inval : is_link x.inode.head.kept.kind ≡ false → told t (read_link t handle) ≡ Err Inval
    unfolding read_link
    read_link-inval other =
        told-not t x o is (find_object t handle) (link-told t) Inval found
        (ap (λ (b : Bool). need b Inval >>= (λ _. Ok (link-body (attributes t o) (content_at t o.place))))
        (ap (λ (k : Kept). is_link k.kind) (object-inode t x o is) ∙ other))

    pub fs_stat-told : told t (fs_stat t handle) ≡ Ok (record { body = stat-body x.attributes; tree = t })
    unfolding fs_stat
    fs_stat-told = told-by t x o is (find_object t handle) (λ o. Ok (stat-body (attributes t o))) stat-body found refl

    pub fs_info-told : told t (fs_info t handle) ≡ Ok (record { body = info-body x.attributes; tree = t })
    unfolding fs_info told_transfer told_listing most_size
    fs_info-told = told-by t x o is (find_object t handle) (λ o. Ok (info-body (attributes t o))) info-body found refl

    pub path_conf-told : told t (path_conf t handle) ≡ Ok (record { body = conf-body x.attributes; tree = t })
    unfolding path_conf most_links longest_name
    path_conf-told = told-by t x o is (find_object t handle) (λ o. Ok (conf-body (attributes t o))) conf-body found refl

module _ (t : Tree) (cred : Cred) (a : AccessArgs (List ℕ)) where
  pub access-refused : (status : Status) → find_object t a.object ≡ Err status → told t (access t cred a) ≡ Err status
  unfolding access
  access-refused status refused =
      told-refused t (find_object t a.object) (λ o. Ok (access-body (attributes t o) (bit_and a.access
      (allowed cred o)))) status refused

  pub access-told : (x : Found) (o : Object) (bits : ℕ) → find_object t a.object ≡ Ok o → IsObject t x o → bits ≡ allowed cred o
      → told t (access t cred a) ≡ Ok (record { body = access-body x.attributes (bit_and a.access bits); tree = t })
  unfolding access
  access-told x o bits found is same =
      told-so t x o is (find_object t a.object) (λ o. Ok (access-body (attributes t o) (bit_and a.access (allowed cred o))))
      (access-body x.attributes (bit_and a.access bits)) found
      (ap (λ (at : Fattr). Ok (access-body at (bit_and a.access (allowed cred o)))) is.attributes
      ∙ ap (λ (b : ℕ). Ok (access-body x.attributes (bit_and a.access b))) (sym same))
