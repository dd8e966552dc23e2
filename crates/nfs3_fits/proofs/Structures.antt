-- A structure has a spelling where its numbers are within their words.
use Rattle.std.proofs.Common.{◌≡◌, ℕ, ◌-◌, ◌^◌, ◌<◌, ◌≤◌, List, length, Option, Some, None, refl, arith}
use Rattle.std.specs.Prelude.{IfSome}
use Rattle.xdr_grammar.specs.Enumerations.{enumeration}
use Rattle.xdr_grammar.specs.Items.{word}
use Rattle.xdr_grammar.proofs.Fits.{word_fits, hyper_fits, fixed_fits, opaque_fits, some_fits, none_fits}
use Rattle.nfs3_types.specs.declared.moment.Moment.{Moment}
use Rattle.nfs3_types.specs.declared.attributes.SpecData.{SpecData}
use Rattle.nfs3_types.specs.declared.attributes.Fattr.{Fattr}
use Rattle.nfs3_types.specs.declared.attributes.WccAttr.{WccAttr}
use Rattle.nfs3_types.specs.declared.attributes.Wcc.{Wcc}
use Rattle.nfs3_types.specs.declared.file_type.FileType.{FileType}
use Rattle.nfs3_types.specs.declared.file_type.FileType.TheVariants.{Reg}
use Rattle.nfs3_types.specs.declared.stable_how.StableHow.{StableHow}
use Rattle.nfs3_types.specs.declared.stable_how.StableHow.TheVariants.{Unstable}
use Rattle.nfs3_types.specs.FileTypes.{file_type}
use Rattle.nfs3_types.specs.Stability.{stable_how}
use Rattle.nfs3_types.specs.Handles.{file_handle, post_op_handle}
use Rattle.nfs3_types.specs.Calls.{text, verifier}
use Rattle.nfs3_types.specs.Attributes.{time, spec_data, fattr, post_op_attr, wcc_attr, pre_op_attr, wcc_data}

pub time_fits_by : (t : Moment) → t.seconds < 2 ^ 32 → t.nanos < 2 ^ 32 → time.Fits t
unfolding time
time_fits_by t s n = record { first = word_fits t.seconds s; second = record { first = word_fits t.nanos n; second = refl } }

pub spec_data_fits_by : (s : SpecData) → s.major < 2 ^ 32 → s.minor < 2 ^ 32 → spec_data.Fits s
unfolding spec_data
spec_data_fits_by s a i = record { first = word_fits s.major a; second = record { first = word_fits s.minor i; second = refl } }

file_type_fits : (k : FileType) → file_type.Fits k
unfolding file_type enumeration word
file_type_fits Reg = record { first = record { fits = omega arith; passes = refl }; second = refl }
file_type_fits _ = record { first = record { fits = omega arith; passes = refl }; second = refl }

pub fattr_fits_by : (a : Fattr) → a.mode < 2 ^ 32 → a.nlink < 2 ^ 32 → a.uid < 2 ^ 32 → a.gid < 2 ^ 32 → a.size < 2 ^ 64
    → a.used < 2 ^ 64
    → spec_data.Fits a.rdev → a.fsid < 2 ^ 64 → a.fileid < 2 ^ 64 → time.Fits a.atime → time.Fits a.mtime → time.Fits a.ctime
    → fattr.Fits a
unfolding fattr
fattr_fits_by a mode nlink uid gid size used rdev fsid fileid atime mtime ctime =
    record {
      first = file_type_fits a.kind;
      second =
          record {
            first = word_fits a.mode mode;
            second =
                record {
                  first = word_fits a.nlink nlink;
                  second =
                      record {
                        first = word_fits a.uid uid;
                        second =
                            record {
                              first = word_fits a.gid gid;
                              second =
                                  record {
                                    first = hyper_fits a.size size;
                                    second =
                                        record {
                                          first = hyper_fits a.used used;
                                          second =
                                              record {
                                                first = rdev;
                                                second =
                                                    record {
                                                      first = hyper_fits a.fsid fsid;
                                                      second =
                                                          record {
                                                            first = hyper_fits a.fileid fileid;
                                                            second =
                                                                record {
                                                                  first = atime;
                                                                  second =
                                                                      record {
                                                                        first = mtime;
                                                                        second =
                                                                            record { first = ctime; second = refl };
                                                                      };
                                                                };
                                                          };
                                                    };
                                              };
                                        };
                                  };
                            };
                      };
                };
          };
    }

pub post_some : (a : Fattr) → fattr.Fits a → post_op_attr.Fits (Some a)
unfolding post_op_attr
post_some a h = some_fits fattr a h

pub post_none : post_op_attr.Fits None
unfolding post_op_attr
post_none = none_fits fattr

pub wcc_attr_fits_by : (w : WccAttr) → w.size < 2 ^ 64 → time.Fits w.mtime → time.Fits w.ctime → wcc_attr.Fits w
unfolding wcc_attr
wcc_attr_fits_by w size mtime ctime = record {
  first = hyper_fits w.size size;
  second =
      record { first = mtime; second = record { first = ctime; second = refl } };
}

pub pre_some : (w : WccAttr) → wcc_attr.Fits w → pre_op_attr.Fits (Some w)
unfolding pre_op_attr
pre_some w h = some_fits wcc_attr w h

pub pre_none : pre_op_attr.Fits None
unfolding pre_op_attr
pre_none = none_fits wcc_attr

pub wcc_fits_by : (w : Wcc) → pre_op_attr.Fits w.before → post_op_attr.Fits w.after → wcc_data.Fits w
unfolding wcc_data
wcc_fits_by w before after = record { first = before; second = record { first = after; second = refl } }

-- ---- texts, handles and verifiers

pub stable_fits : (k : StableHow) → stable_how.Fits k
unfolding stable_how enumeration word
stable_fits Unstable = record { first = record { fits = omega arith; passes = refl }; second = refl }
stable_fits _ = record { first = record { fits = omega arith; passes = refl }; second = refl }

pub text_fits_by : (t : List ℕ) → length t ≤ 2 ^ 20 → text.Fits t
unfolding text
text_fits_by t h = opaque_fits (2 ^ 32 - 1) t (omega (arith, h)) (omega (arith, h))

pub handle_fits_by : (t : List ℕ) → length t ≤ 64 → file_handle.Fits t
unfolding file_handle
handle_fits_by t h = opaque_fits 64 t h (omega (arith, h))

pub post_handle_fits_by : (o : Option (List ℕ)) → IfSome o (λ h. length h ≤ 64) → post_op_handle.Fits o
unfolding post_op_handle
post_handle_fits_by (Some t) h = some_fits file_handle t (handle_fits_by t h)
post_handle_fits_by None h = none_fits file_handle

pub verifier_fits_by : (v : List ℕ) → length v ≡ 8 → verifier.Fits v
unfolding verifier
verifier_fits_by v h = fixed_fits 8 v h
