mod Founding
