-- What results of status OK say has a spelling where their items have one.
use Rattle.std.proofs.Common.{◌^◌, ◌<◌, ◌≤◌, length, refl, arith}
use Rattle.std.specs.Prelude.{IfSome}
use Rattle.xdr_grammar.specs.Items.{word}
use Rattle.xdr_grammar.proofs.Fits.{word_fits, hyper_fits, truth_fits}
use Rattle.nfs3_types.specs.declared.body.LookupOk.{LookupOk}
use Rattle.nfs3_types.specs.declared.body.AccessOk.{AccessOk}
use Rattle.nfs3_types.specs.declared.body.ReadLinkOk.{ReadLinkOk}
use Rattle.nfs3_types.specs.declared.body.ReadOk.{ReadOk}
use Rattle.nfs3_types.specs.declared.body.WriteOk.{WriteOk}
use Rattle.nfs3_types.specs.declared.body.CreateOk.{CreateOk}
use Rattle.nfs3_types.specs.declared.body.RenameOk.{RenameOk}
use Rattle.nfs3_types.specs.declared.body.LinkOk.{LinkOk}
use Rattle.nfs3_types.specs.declared.body.FsStatOk.{FsStatOk}
use Rattle.nfs3_types.specs.declared.body.FsInfoOk.{FsInfoOk}
use Rattle.nfs3_types.specs.declared.body.PathConfOk.{PathConfOk}
use Rattle.nfs3_types.specs.declared.body.CommitOk.{CommitOk}
use Rattle.nfs3_types.specs.Attributes.{time, post_op_attr, wcc_data}
use Rattle.nfs3_types.specs.Calls.{verifier}
use Rattle.nfs3_types.specs.Replies.{lookup_ok, access_ok, read_link_ok, read_ok, write_ok, create_ok, rename_ok, link_ok}
use Rattle.nfs3_types.specs.Replies.{fs_stat_ok, fs_info_ok, path_conf_ok, commit_ok}
use Rattle.nfs3_fits.proofs.Structures.{stable_fits, text_fits_by, handle_fits_by, post_handle_fits_by}

pub lookup_fits_by : (r : LookupOk) → length r.object ≤ 64 → post_op_attr.Fits r.attributes → post_op_attr.Fits r.directory
    → lookup_ok.Fits r
unfolding lookup_ok
lookup_fits_by r object attributes directory = record {
  first = handle_fits_by r.object object;
  second =
      record { first = attributes; second = record { first = directory; second = refl } };
}

pub access_fits_by : (r : AccessOk) → post_op_attr.Fits r.attributes → r.access < 2 ^ 32 → access_ok.Fits r
unfolding access_ok
access_fits_by r attributes access = record {
  first = attributes;
  second = record {
    first = word_fits r.access access;
    second =
        refl;
  };
}

pub read_link_fits_by : (r : ReadLinkOk) → post_op_attr.Fits r.attributes → length r.target ≤ 65536 → read_link_ok.Fits r
unfolding read_link_ok
read_link_fits_by r attributes target = record {
  first = attributes;
  second =
      record { first = text_fits_by r.target (omega (arith, target)); second = refl };
}

pub read_fits_by : (r : ReadOk) → post_op_attr.Fits r.attributes → word.Fits r.count → length r.«data» ≤ 65536 → read_ok.Fits r
unfolding read_ok
read_fits_by r attributes count bytes =
    record {
      first = attributes;
      second =
          record {
            first = count;
            second =
                record {
                  first = truth_fits r.eof;
                  second =
                      record { first = text_fits_by r.«data» (omega (arith, bytes)); second = refl };
                };
          };
    }

pub write_fits_by : (r : WriteOk) → wcc_data.Fits r.file → r.count < 2 ^ 32 → verifier.Fits r.verifier → write_ok.Fits r
unfolding write_ok
write_fits_by r file count verifier =
    record {
      first = file;
      second =
          record {
            first = word_fits r.count count;
            second =
                record {
                  first = stable_fits r.committed;
                  second =
                      record { first = verifier; second = refl };
                };
          };
    }

pub create_fits_by : (r : CreateOk) → IfSome r.object (λ h. length h ≤ 64) → post_op_attr.Fits r.attributes
    → wcc_data.Fits r.directory → create_ok.Fits r
unfolding create_ok
create_fits_by r object attributes directory = record {
  first = post_handle_fits_by r.object object;
  second =
      record { first = attributes; second = record { first = directory; second = refl } };
}

pub rename_fits_by : (r : RenameOk) → wcc_data.Fits r.from → wcc_data.Fits r.to → rename_ok.Fits r
unfolding rename_ok
rename_fits_by r from to = record { first = from; second = record { first = to; second = refl } }

pub link_fits_by : (r : LinkOk) → post_op_attr.Fits r.attributes → wcc_data.Fits r.directory → link_ok.Fits r
unfolding link_ok
link_fits_by r attributes directory = record { first = attributes; second = record { first = directory; second = refl } }

pub fs_stat_fits_by : (r : FsStatOk) → post_op_attr.Fits r.attributes → r.tbytes < 2 ^ 64 → r.fbytes < 2 ^ 64 → r.abytes < 2 ^ 64
    → r.tfiles < 2 ^ 64 → r.ffiles < 2 ^ 64 → r.afiles < 2 ^ 64 → r.invarsec < 2 ^ 32 → fs_stat_ok.Fits r
unfolding fs_stat_ok
fs_stat_fits_by r attributes tbytes fbytes abytes tfiles ffiles afiles invarsec =
    record {
      first = attributes;
      second =
          record {
            first = hyper_fits r.tbytes tbytes;
            second =
                record {
                  first = hyper_fits r.fbytes fbytes;
                  second =
                      record {
                        first = hyper_fits r.abytes abytes;
                        second =
                            record {
                              first = hyper_fits r.tfiles tfiles;
                              second =
                                  record {
                                    first = hyper_fits r.ffiles ffiles;
                                    second =
                                        record {
                                          first = hyper_fits r.afiles afiles;
                                          second =
                                              record { first = word_fits r.invarsec invarsec; second = refl };
                                        };
                                  };
                            };
                      };
                };
          };
    }

pub fs_info_fits_by : (r : FsInfoOk) → post_op_attr.Fits r.attributes → r.rtmax < 2 ^ 32 → r.rtpref < 2 ^ 32 → r.rtmult < 2 ^ 32
    → r.wtmax < 2 ^ 32 → r.wtpref < 2 ^ 32 → r.wtmult < 2 ^ 32 → r.dtpref < 2 ^ 32 → r.maxfilesize < 2 ^ 64
    → time.Fits r.time_delta → r.properties < 2 ^ 32 → fs_info_ok.Fits r
unfolding fs_info_ok
fs_info_fits_by r attributes rtmax rtpref rtmult wtmax wtpref wtmult dtpref maxfilesize time_delta properties =
    record {
      first = attributes;
      second =
          record {
            first = word_fits r.rtmax rtmax;
            second =
                record {
                  first = word_fits r.rtpref rtpref;
                  second =
                      record {
                        first = word_fits r.rtmult rtmult;
                        second =
                            record {
                              first = word_fits r.wtmax wtmax;
                              second =
                                  record {
                                    first = word_fits r.wtpref wtpref;
                                    second =
                                        record {
                                          first = word_fits r.wtmult wtmult;
                                          second =
                                              record {
                                                first = word_fits r.dtpref dtpref;
                                                second =
                                                    record {
                                                      first = hyper_fits r.maxfilesize maxfilesize;
                                                      second =
                                                          record {
                                                            first = time_delta;
                                                            second =
                                                                record {
                                                                  first = word_fits r.properties properties;
                                                                  second =
                                                                      refl;
                                                                };
                                                          };
                                                    };
                                              };
                                        };
                                  };
                            };
                      };
                };
          };
    }

pub path_conf_fits_by : (r : PathConfOk) → post_op_attr.Fits r.attributes → r.linkmax < 2 ^ 32 → r.name_max < 2 ^ 32
    → path_conf_ok.Fits r
unfolding path_conf_ok
path_conf_fits_by r attributes linkmax name_max =
    record {
      first = attributes;
      second =
          record {
            first = word_fits r.linkmax linkmax;
            second =
                record {
                  first = word_fits r.name_max name_max;
                  second =
                      record {
                        first = truth_fits r.no_trunc;
                        second =
                            record {
                              first = truth_fits r.chown_restricted;
                              second =
                                  record {
                                    first = truth_fits r.case_insensitive;
                                    second =
                                        record { first = truth_fits r.case_preserving; second = refl };
                                  };
                            };
                      };
                };
          };
    }

pub commit_fits_by : (r : CommitOk) → wcc_data.Fits r.file → verifier.Fits r.verifier → commit_ok.Fits r
unfolding commit_ok
commit_fits_by r file verifier = record { first = file; second = record { first = verifier; second = refl } }
