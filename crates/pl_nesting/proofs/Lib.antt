mod Deep
